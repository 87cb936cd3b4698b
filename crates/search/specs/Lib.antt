-- The search: its promise (Search), and signed net flows in the workspace (Signed, Workspace).
pub mod Signed
pub mod Workspace
pub mod Search
pub mod inner
