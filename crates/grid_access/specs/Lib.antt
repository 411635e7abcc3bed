pub mod RowLevels
