mod Words
mod Telling
mod Sheets
mod Openings
mod Once
