-- Texts, and what every kind of field owes.
pub mod Text
pub mod Inverse
