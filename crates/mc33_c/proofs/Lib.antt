mod Controls
