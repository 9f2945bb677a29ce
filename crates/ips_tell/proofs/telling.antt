mod Adding
mod Items
