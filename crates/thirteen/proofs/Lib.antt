mod Controls
mod Edge0
mod Ways
