mod Looked
mod Listing
