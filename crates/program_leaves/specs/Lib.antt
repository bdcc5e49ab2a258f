pub mod ValuesIn
