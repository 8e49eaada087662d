pub mod World
pub mod Buffer
pub mod Reader
