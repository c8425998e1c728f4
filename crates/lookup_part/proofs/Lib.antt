pub mod AddressSigns
