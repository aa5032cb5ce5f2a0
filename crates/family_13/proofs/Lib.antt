mod Controls
mod Runs
