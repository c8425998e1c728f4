pub mod AddressSpan
