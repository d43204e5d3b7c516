mod OneFrame
mod OneOffer
mod Pieces
