pub mod SeenKeys
mod Examples
