mod Scales
