pub mod RoomLaws
pub mod CiteLaws
pub mod ItemStands
pub mod ItemEndLaws
pub mod RestPutLaws
pub mod ProgressLaws
pub mod PutLineLaws
