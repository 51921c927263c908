pub mod Digits
pub mod HexTextFacts
pub mod PrefixFacts
pub mod PrefixTexts
pub mod TextFacts
