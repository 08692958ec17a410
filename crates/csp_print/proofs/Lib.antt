pub mod EventSetTexts
pub mod ExpressionTexts
pub mod ProcessTexts
pub mod ValueTexts
pub mod Writing
