pub mod BytesLaws
pub mod PutLaws
pub mod RisingLaws
pub mod Storing
pub mod Placing
pub mod Cursors
pub mod Theorems
