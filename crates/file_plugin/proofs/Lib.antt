mod SoFar
mod Taking
