mod Coming
mod Controls
mod Keeping
mod Running
