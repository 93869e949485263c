-- The methods of the service, and the meanings and spellings of their responses.
pub mod Methods
pub mod KeyValues
pub mod Responses
pub mod Spelled
pub mod Depths
pub mod Known
pub mod Laws
