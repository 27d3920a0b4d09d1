pub mod IndexNotes
