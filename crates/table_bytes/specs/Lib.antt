pub mod TableBytes
