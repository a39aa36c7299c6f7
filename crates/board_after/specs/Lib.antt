pub mod CodeDiffer
