mod AllKeys
mod Keys
mod KeyWalk
mod Newer
mod Pages
mod Prefixes
