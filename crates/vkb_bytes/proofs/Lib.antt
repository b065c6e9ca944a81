pub mod DigitLemmas
pub mod NumberLemmas
pub mod NumeralLemmas
pub mod TrimLemmas
