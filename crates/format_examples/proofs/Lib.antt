-- The tables proved, each as a whole.
mod Specimens
mod ValueEnds
mod Refusing
mod SecondLines
mod Rules
