pub mod Packing
pub mod Naming
pub mod Tables
pub mod DenseOf
pub mod ValuesOf
pub mod Lists
pub mod NamesOf
