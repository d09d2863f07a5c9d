pub mod Tops
pub mod Standing
pub mod Claims
