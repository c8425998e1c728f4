pub mod HeldSlices
pub mod WriteExits
