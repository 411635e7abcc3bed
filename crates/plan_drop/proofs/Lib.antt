pub mod DroppedRows
pub mod DroppedFiles
pub mod RowMaps
pub mod DropPlans
pub mod ObjectsAt
pub mod RemovedObjects
pub mod TrimmedReplicas
