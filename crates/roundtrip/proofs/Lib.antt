pub mod Halves
pub mod Lossless
pub mod CountPassing
pub mod LossStores
pub mod Walking
