pub mod Headed
pub mod TextLengths
pub mod LineParts
pub mod Lined
pub mod ContentPart
pub mod StoreWalk
pub mod HeldText
