-- Request Nine, "The recorder is a guest on the owner's sheet": when two sheets are alike for a node, and the edit.
pub mod Alike
pub mod Edit
