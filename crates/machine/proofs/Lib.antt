pub mod Modules
pub mod Going
pub mod Reaching
pub mod Settling
pub mod Arms
pub mod Looping
pub mod Calling
