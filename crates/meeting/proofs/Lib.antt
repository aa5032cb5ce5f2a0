pub mod Agreement
mod Controls
mod Meetings
