pub mod Results
pub mod FirstByte
pub mod Standing
pub mod Determined
