-- When objects and keys fit, what global cells may name, and which places are there: over the shapes of the cells that stand.
pub use Rattle.ps_meaning.specs.Objects.{Shapes, lies_within, takes, key_takes, FitsCell, FitsObject, FitsKey, FitsFound, FitsSpot}
pub use Rattle.ps_meaning.specs.Shared.{is_system_dict, key_is_shared, value_is_shared, SharedFound, SharedSpot}
pub use Rattle.ps_meaning.specs.Standing.{IsDict, IsLoc}
