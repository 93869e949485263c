pub mod IdLemmas
pub mod ParseLemmas
pub mod WindowLemmas
pub mod BatchLemmas
