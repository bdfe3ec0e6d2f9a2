mod SeenNames
mod TwiceTypes
