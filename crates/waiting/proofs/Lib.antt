mod Controls
mod Retries
