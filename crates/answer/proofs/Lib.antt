pub mod Same
mod Joined
mod Replies
mod Lines
