mod Controls
mod Empties
mod Numbers
mod Tabled
mod Tried
