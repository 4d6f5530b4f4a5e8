pub mod StartMaps
