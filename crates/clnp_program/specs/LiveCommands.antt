pub mod Advised
pub mod Serves
