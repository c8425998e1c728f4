mod ShownCases
mod ShownLines
mod EntryNames
mod Read
mod WordRows
mod TellingCases
mod WordParts
