pub mod Afresh
