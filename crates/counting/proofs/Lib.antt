mod Strings
mod Listings
mod FirstBytes
mod FourDigits
mod Counts
mod CountLines
