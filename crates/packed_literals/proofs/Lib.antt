pub mod PackingLaws
pub mod NamingLaws
pub mod ListLaws
