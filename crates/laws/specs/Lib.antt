pub mod Table
pub mod Numbers
pub mod Lists
