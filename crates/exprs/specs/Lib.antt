pub mod State
pub mod End
pub mod Rules
