pub mod FirstGrant
