pub mod Faults
pub mod Shelf
pub mod Sink
pub mod Calls
pub mod FolderShelf
pub mod MemoryShelf
pub mod MemorySink
pub mod StreamSink
