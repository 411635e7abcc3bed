mod OnPaths
mod ServiceNames
