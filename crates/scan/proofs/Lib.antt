mod Controls
pub mod First
