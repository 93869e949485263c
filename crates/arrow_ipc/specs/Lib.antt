-- Arrow IPC streams: the buffers of columns, the two messages, the writer's layout, and what a stream holds.
pub mod Columns
pub mod Messages
pub mod Stream
pub mod Holds
pub mod Alignment
