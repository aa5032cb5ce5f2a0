mod Controls
mod Runs
mod TwoFaces
