pub mod ChecksumLaws
pub mod Numbers
pub mod SumLemmas
pub mod Worked
pub mod Writes
pub mod Test
